-- Laws of the whole transform: the items and the place of the templates, what is put in afterwards, and the answer.
pub mod RunLaws
pub mod CutLaws
pub mod MoveLaws
pub mod HeadLaws
pub mod WrittenLaws
pub mod ExportLaws
pub mod OptionLaws
pub mod SplitLaws
pub mod ItemLaws
pub mod PageLaws
pub mod GivenLaws
pub mod AnswerLaws
pub mod ListLaws
