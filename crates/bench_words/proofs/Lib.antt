pub mod RoundTrip
pub mod Words
