pub mod Token
pub mod Grammar
pub mod GrammarFile
pub mod Reading
pub mod ReadingFile
pub mod Spelling
