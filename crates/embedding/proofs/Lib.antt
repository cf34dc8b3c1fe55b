pub mod FiguresSteps
