pub mod AfterStores
pub mod Agreement
pub mod LoadedNumbers
pub mod Loading
