-- Jobs that stay the same loads, however far they have come.
use Rattle.std.specs.Prelude.{◌≡◌, ◌≢◌, ℕ, ◌+◌, List, [], ◌∷◌, map, Contains}
use Rattle.bl_files.specs.declared.load_request.LoadRequest.{LoadRequest}
use Rattle.bl_queue.specs.declared.job.Job.{Job}
use Rattle.bl_queue.specs.Jobs.{Kept}

-- which load a job is, and what was asked for
pub record Tag : Type 0 where
  pub number : ℕ
  pub id : ℕ
  pub request : LoadRequest

abbrev pub tag_of : Job → Tag
tag_of job = record { number = job.number; id = job.id; request = job.request }

-- The same loads are kept, and no number was given.
pub record HasSameJobs (old new : Kept) : Type 0 where
  pub last : new.last ≡ old.last
  pub tags : map tag_of new.jobs ≡ map tag_of old.jobs
