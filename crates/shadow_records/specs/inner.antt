pub mod OneKey
