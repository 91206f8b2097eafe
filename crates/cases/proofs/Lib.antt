mod Order
mod Cases
