-- DirectRequests: what the engine is asked. DirectStatements: statements without transactions and plans. inner: what ties its code to the definitions of row_model.
pub mod DirectRequests
pub mod DirectStatements
pub mod inner
