pub mod CountLaws
pub mod HitLaws
pub mod PointFacts
pub mod ShapeFacts
