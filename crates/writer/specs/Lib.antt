pub mod Writer
pub mod Files
