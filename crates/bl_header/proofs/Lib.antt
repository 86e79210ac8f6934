mod EscapedNames
mod NameParts
mod Repeats
mod FirstFaults
mod Refusals
mod ValidColumns
mod Spellings
