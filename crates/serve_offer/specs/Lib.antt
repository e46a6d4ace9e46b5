pub mod Offers
pub mod OffersLaws
