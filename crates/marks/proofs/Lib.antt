pub mod GrayCode
pub mod Made
pub mod RaisedMarks
