pub mod RaisedProduct
mod MoveLaws
mod ReadLaws
