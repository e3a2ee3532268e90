pub mod ManyLaws
