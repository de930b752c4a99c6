pub mod Drawing
pub mod Records
pub mod Made
pub mod Making
pub mod Laws
