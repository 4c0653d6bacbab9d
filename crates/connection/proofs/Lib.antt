pub mod Scan
pub mod Distinct
pub mod NoKind
