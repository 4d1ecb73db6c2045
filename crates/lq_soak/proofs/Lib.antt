pub mod Results
pub mod SoakEnds
pub mod SoakRuns
pub mod SoakStops
pub mod Soaked
pub mod SoakTables
