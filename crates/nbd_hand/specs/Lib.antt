pub mod Exports
pub mod Grammar
pub mod Handshakes
pub mod Negotiation
pub mod Options
pub mod Taking
