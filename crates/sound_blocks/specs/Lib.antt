-- What the code hands down inside the call.
pub mod Layouts
