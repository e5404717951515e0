-- What the proofs of `sweep` share; its theorems, Exact (refusal 8 is given exactly where a list of the run in lists that grow passes its entries)
-- and Visible (demand 3, the marks), and Freely (that run goes by no bound); and Front, for its callers.
pub mod Ways
pub mod Walking
pub mod Sim
pub mod Bounded
pub mod Pushed
pub mod Exact
pub mod Visible
pub mod Freely
pub mod Front
