-- The form of a stream: a record's length, the fields of its body, and the lines that answer; and the records of the buffer.
pub mod Records
pub mod Tags
pub mod Fields
pub mod Told
pub mod Line
pub mod Buffer
