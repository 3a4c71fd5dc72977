-- tests
pub mod Tests
pub mod Table
pub mod Choice
-- sums and lists
pub mod Sums
pub mod Listed
pub mod Lists
pub mod Arrays
pub mod Made
pub mod Pieces
pub mod Every
pub mod Rising
pub mod Bytes
-- polynomials, by computation
pub mod Normal
pub mod Claim
pub mod Excess
pub mod Certificate
pub mod Polynomial
-- quotients and roots of whole numbers
pub mod Rounding
pub mod Equal
pub mod Roots
-- fractions
pub mod Fraction
pub mod FractionSum
pub mod FractionTerm
pub mod FractionRing
pub mod FractionOrder
pub mod FractionCompare
-- span functions
pub mod Span
pub mod SpanParts
