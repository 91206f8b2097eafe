pub use Rattle.layout.proofs.Facts
pub use Rattle.layout.proofs.Listed
