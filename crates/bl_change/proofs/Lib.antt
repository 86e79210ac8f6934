mod Dates
mod EventParts
mod EventsOnce
mod EventsPrinted
mod Finding
mod JsonTexts
mod ReadTexts
