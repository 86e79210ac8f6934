-- What is shown of feeds: records and counts with the end log in them, and their sums over a job.
use Rattle.std.specs.Prelude.{ℕ, ◌+◌, ◌-◌, ◌^◌, min, if◌then◌else◌, List, Some, None}
use Rattle.std.specs.declared.option.Option.{Option}
use Rattle.std.specs.List.{sum_by}
use Rattle.bl_files.specs.declared.counts.Counts.{Counts}
use Rattle.bl_files.specs.declared.log.Log.{Log}
use Rattle.bl_files.specs.declared.feed.Feed.{Feed}
use Rattle.bl_files.specs.declared.error_class.ErrorClass.{ErrorClass}
use Rattle.bl_files.specs.declared.error_class.ErrorClass.TheVariants.{Parsing, Datatype, Insert}
use Rattle.bl_files.specs.Codes.{class_of, is_row_code}

-- a number that is too large is shown as the greatest one
abbrev pub shown : ℕ → ℕ
shown n = min n (2 ^ 64 - 1)

-- 1 where the end log is that of a record
abbrev pub end_records : Option Log → ℕ
end_records None = 0
end_records (Some log) = if is_row_code log.code then 1 else 0

-- the counters that an end log adds to
abbrev pub of_class : Option ErrorClass → Counts
of_class None = record { records = 0; duplicates = 0; parsing = 0; datatype = 0; insert = 0 }
of_class (Some Parsing) = record {
  records = 0;
  duplicates = 0;
  parsing = 1;
  datatype = 0;
  insert = 0;
}
of_class (Some Datatype) = record {
  records = 0;
  duplicates = 0;
  parsing = 0;
  datatype = 1;
  insert = 0;
}
of_class (Some Insert) = record {
  records = 0;
  duplicates = 0;
  parsing = 0;
  datatype = 0;
  insert = 1;
}

abbrev pub end_counts : Option Log → Counts
end_counts None = of_class None
end_counts (Some log) = of_class (class_of log.code)

-- the records taken, and the one at which the file ended
abbrev pub records_of : Feed → ℕ
records_of feed = feed.taken + end_records feed.end_log

abbrev pub duplicates_of : Feed → ℕ
duplicates_of feed = feed.counts.duplicates

abbrev pub parsing_of : Feed → ℕ
parsing_of feed = feed.counts.parsing + (end_counts feed.end_log).parsing

abbrev pub datatype_of : Feed → ℕ
datatype_of feed = feed.counts.datatype + (end_counts feed.end_log).datatype

abbrev pub insert_of : Feed → ℕ
insert_of feed = feed.counts.insert + (end_counts feed.end_log).insert

-- what is shown of a feed
abbrev pub shown_counts : Feed → Counts
shown_counts feed =
    record {
      records = shown (records_of feed);
      duplicates = shown (duplicates_of feed);
      parsing = shown (parsing_of feed);
      datatype = shown (datatype_of feed);
      insert = shown (insert_of feed);
    }

-- and of a job: the sums over its feeds
abbrev pub totals : List Feed → Counts
totals feeds =
    record {
      records = shown (sum_by records_of feeds);
      duplicates = shown (sum_by duplicates_of feeds);
      parsing = shown (sum_by parsing_of feeds);
      datatype = shown (sum_by datatype_of feeds);
      insert = shown (sum_by insert_of feeds);
    }

-- two counts together
abbrev pub shown_sum : Counts → Counts → Counts
shown_sum a b =
    record {
      records = shown (a.records + b.records);
      duplicates = shown (a.duplicates + b.duplicates);
      parsing = shown (a.parsing + b.parsing);
      datatype = shown (a.datatype + b.datatype);
      insert = shown (a.insert + b.insert);
    }
