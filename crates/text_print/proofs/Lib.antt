-- Worked examples of the page that says what is typed and what is printed; laws that the code's proofs do not cite.
pub mod Examples
pub mod KeptLaws
