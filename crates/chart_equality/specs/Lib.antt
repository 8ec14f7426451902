pub mod SameBytes
