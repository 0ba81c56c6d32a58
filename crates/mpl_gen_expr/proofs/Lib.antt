pub mod ByNumber
pub mod Computed
pub mod Done
pub mod FlowForms
pub mod Forms
pub mod Results
pub mod Texts
