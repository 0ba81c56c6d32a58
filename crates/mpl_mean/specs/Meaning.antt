-- What a program does.
pub mod Layout
pub mod Store
pub mod Context
pub mod Values
pub mod PlaceMeaning
pub mod ExpressionMeaning
pub mod CallMeaning
pub mod StatementMeaning
pub mod BodyMeaning
pub mod DirectRun
