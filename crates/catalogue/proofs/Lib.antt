-- The theorems on a host's catalogue: for any Given from Tests to InPlace, and from Rows to Project for the project's templates and page outs.
-- Toy and Samples are calls with their answers, by computation.
pub mod Tests
pub mod Parts
pub mod Exact
pub mod Lists
pub mod Sums
pub mod Keeps
pub mod Guarantee
pub mod Apart
pub mod InPlace
pub mod Rows
pub mod Numbered
pub mod Raised
pub mod Project
pub mod Toy
pub mod Samples
