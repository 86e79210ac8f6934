-- Which loads are kept.
use Rattle.std.specs.Prelude.{◌≡◌, ℕ, ◌+◌, List, map, Contains}
use Rattle.bl_files.specs.declared.load_request.LoadRequest.{LoadRequest}
use Rattle.bl_queue.specs.declared.job.Job.{Job}
use Rattle.bl_queue.specs.Jobs.{Kept}
use Rattle.bl_world.specs.LoadIds.{load_number}
use Rattle.bl_load.specs.SameJobs.{tag_of}

-- a job of this id is kept
abbrev pub HasTag : List Job → ℕ → Type 0
HasTag jobs id = (it : Job) × Contains jobs it × (it.id ≡ id)

-- A load was taken on: its job is kept, with the next number, with the id that is made of it, and
-- with its request.
pub record HasTaken (salt : ℕ) (request : LoadRequest) (old new : Kept) (id : ℕ) : Type 0 where
  pub id_is : id ≡ load_number salt (old.last + 1)
  pub there : Contains (map tag_of new.jobs) (record { number = old.last + 1; id = id; request = request })
