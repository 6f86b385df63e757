pub mod Offers
pub mod StrictOrders
