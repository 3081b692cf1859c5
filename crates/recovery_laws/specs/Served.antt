pub mod Clients
pub mod Stops
pub mod Serving
pub mod Again
pub mod Passphrases
pub mod Ends
