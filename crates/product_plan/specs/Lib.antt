-- What the product engine's contracts cite: what a plan does, and the plan of each routine.
pub mod Plan
pub mod Plans
pub mod Work
