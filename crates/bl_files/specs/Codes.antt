-- What a code of a log counts as.
use Rattle.std.specs.Prelude.{Bool, true, false, Some, None}
use Rattle.std.specs.declared.option.Option.{Option}
use Rattle.bl_value.specs.declared.log_code.LogCode.{LogCode}
use Rattle.bl_value.specs.declared.log_code.LogCode.TheVariants.{ColumnCount, NotUtf8, RecordTooLarge, MissingId, IdTooLong, NotOfType, OutOfRange, TooManyValues, FromMissing, ToMissing, EdgeConflict, SingleConflict, Header, Compressed, ReadFault, FileTooLarge, FeedModified, SourceNotFound, ListFault, TooManyFiles, NoPreviousLoad}
use Rattle.bl_files.specs.declared.feed_kind.FeedKind.{FeedKind}
use Rattle.bl_files.specs.declared.feed_kind.FeedKind.TheVariants.{Vertex, Edge, Refused}
use Rattle.bl_files.specs.declared.error_class.ErrorClass.{ErrorClass}
use Rattle.bl_files.specs.declared.error_class.ErrorClass.TheVariants.{Parsing, Datatype, Insert}

-- the counter of a code, where it has one
abbrev pub class_of : LogCode → Option ErrorClass
class_of ColumnCount = Some Parsing
class_of NotUtf8 = Some Parsing
class_of RecordTooLarge = Some Parsing
class_of MissingId = Some Parsing
class_of IdTooLong = Some Parsing
class_of NotOfType = Some Datatype
class_of OutOfRange = Some Datatype
class_of TooManyValues = Some Parsing
class_of FromMissing = Some Insert
class_of ToMissing = Some Insert
class_of EdgeConflict = Some Insert
class_of SingleConflict = Some Insert
class_of Header = Some Parsing
class_of Compressed = None
class_of ReadFault = None
class_of FileTooLarge = None
class_of FeedModified = None
class_of SourceNotFound = None
class_of ListFault = None
class_of TooManyFiles = None
class_of NoPreviousLoad = None

-- a code that is said of one record
abbrev pub is_row_code : LogCode → Bool
is_row_code ColumnCount = true
is_row_code NotUtf8 = true
is_row_code RecordTooLarge = true
is_row_code MissingId = true
is_row_code IdTooLong = true
is_row_code NotOfType = true
is_row_code OutOfRange = true
is_row_code TooManyValues = true
is_row_code FromMissing = true
is_row_code ToMissing = true
is_row_code EdgeConflict = true
is_row_code SingleConflict = true
is_row_code Header = false
is_row_code Compressed = false
is_row_code ReadFault = false
is_row_code FileTooLarge = false
is_row_code FeedModified = false
is_row_code SourceNotFound = false
is_row_code ListFault = false
is_row_code TooManyFiles = false
is_row_code NoPreviousLoad = false

-- a code for which a file isn't read at all
abbrev pub is_file_code : LogCode → Bool
is_file_code ColumnCount = false
is_file_code NotUtf8 = false
is_file_code RecordTooLarge = false
is_file_code MissingId = false
is_file_code IdTooLong = false
is_file_code NotOfType = false
is_file_code OutOfRange = false
is_file_code TooManyValues = false
is_file_code FromMissing = false
is_file_code ToMissing = false
is_file_code EdgeConflict = false
is_file_code SingleConflict = false
is_file_code Header = true
is_file_code Compressed = true
is_file_code ReadFault = false
is_file_code FileTooLarge = true
is_file_code FeedModified = false
is_file_code SourceNotFound = false
is_file_code ListFault = false
is_file_code TooManyFiles = false
is_file_code NoPreviousLoad = false

-- where the file isn't read, it is for such a code
abbrev pub has_file_code : FeedKind → Bool
has_file_code Vertex = true
has_file_code Edge = true
has_file_code (Refused code column) = is_file_code code
