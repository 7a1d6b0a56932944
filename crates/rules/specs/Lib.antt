-- Rules 7 and 16 to 19 as the code judges them.
pub mod ByPlaces
