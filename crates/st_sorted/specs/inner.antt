-- Where keys stand, which no reader has to believe.
pub mod Places
