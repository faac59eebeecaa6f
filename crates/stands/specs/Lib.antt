pub mod Width
pub mod Stand
pub mod Look
pub mod Stack
