mod OwnText
mod ReadingLaws
mod Room
mod StateLaws
mod StepLaws
mod Texts
mod Unbroken
