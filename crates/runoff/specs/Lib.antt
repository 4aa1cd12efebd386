pub mod RunoffDepth
