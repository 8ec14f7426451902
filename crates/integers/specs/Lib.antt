pub mod Order
pub mod Range
pub mod Division
pub mod Inverse
pub mod LittleEndian
pub mod Bits
pub mod Machine
pub mod Quotient
