-- What a host's catalogue is: pages in order of arrival, the bytes that hold them, what reads them, arrivals and leavings, shares, and the
-- words in which the theorems speak. Numbers and Judged say what the project's templates and page outs bring to it.
pub mod Page
pub mod Catalogue
pub mod Shares
pub mod Calls
pub mod Words
pub mod Numbers
pub mod Judged
