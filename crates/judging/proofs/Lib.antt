mod Breaking
mod Spelled
mod Parts
mod RoundTrip
mod Judging
mod Sound
