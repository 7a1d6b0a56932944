-- General definitions and laws: no word of the desk. A file X holds definitions alone, the files below X/ what follows from them.
pub mod Base
pub mod Tests
pub mod Lists
pub mod Bytes
pub mod Cut
pub mod Order
pub mod Table
pub mod Slices
pub mod Loops
pub mod Chains
pub mod Skips
pub mod InPlace
pub mod Kit
