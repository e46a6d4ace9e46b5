pub mod Rooms
pub mod RoomsLaws
