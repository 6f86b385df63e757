pub mod HitRows
