-- Theorems on the definitions of `paper`: no function, no assumption. Promises is the page to read, Kept has demand 3 call by call, Words has what they say besides
-- the paper's words; each file of Laws carries one reason.
pub mod Words
pub mod Laws
pub mod Kept
pub mod Promises
