-- For private clauses: what stands before and behind the records of a page.
use Rattle.std.specs.Prelude.{ℕ, codes, decimal, List, ◌++◌}

abbrev pub page_front : ℕ → ℕ → ℕ → List ℕ
page_front commit op moment =
    codes "{\"format\":\"PG_JSON\",\"lastEventId\":{\"commitNum\":" ++ decimal commit ++ codes ",\"opNum\":" ++ decimal op ++ codes "},\"lastTrxTimestamp\":" ++ decimal moment
    ++ codes ",\"records\":["

abbrev pub page_end : ℕ → List ℕ
page_end count = codes ",\"totalRecords\":" ++ decimal count ++ codes "}"
