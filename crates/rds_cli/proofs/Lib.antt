pub mod ErrorKinds
pub mod Numbers
