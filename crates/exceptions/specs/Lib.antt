pub mod EntryAdmitted
