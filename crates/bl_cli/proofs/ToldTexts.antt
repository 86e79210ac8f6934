-- What an engine that is ready tells.
use Rattle.std.specs.Prelude.{◌≡◌, ◌≤◌, ℕ, true, length, List, [], ◌∷◌, None, Some, Result, Ok, Err, IfOk, refl}
use Rattle.std.proofs.Common.{sym, ap, subst, ◌∙◌, arith}
use Rattle.bl_outside.specs.declared.disk.Disk.{Ghosts}
use Rattle.bl_change.specs.declared.event.Event.{Event}
use Rattle.bl_queue.specs.Jobs.{job_with_id}
use Rattle.bl_queue.specs.declared.job.Job.{Job}
use Rattle.bl_stream.specs.declared.page.Page.{Page}
use Rattle.bl_stream.specs.declared.page.PageRefusal.{PageRefusal}
use Rattle.bl_stream.specs.declared.page.PageRefusal.TheVariants as page
use Rattle.bl_stream.specs.declared.page_ask.PageAsk.{PageAsk}
use Rattle.bl_world.specs.Works.{listed}
use Rattle.bl_world.specs.Worlds.{World}
use Rattle.bl_engine.specs.Calls.{Handles, Looks}
use Rattle.bl_engine.specs.Engines.{View}
use Rattle.bl_engine.specs.Outcomes.{view_trouble}
use Rattle.bl_engine.specs.Streams.{page_of, page_trouble}
use Rattle.bl_engine.specs.declared.refusals.Trouble.{Trouble}
use Rattle.bl_engine.specs.declared.refusals.Trouble.TheVariants as trouble
use Rattle.bl_engine.specs.declared.refusals.ViewRefusal.{ViewRefusal}
use Rattle.bl_engine.specs.declared.refusals.ViewRefusal.TheVariants as view
use Rattle.bl_cli.specs.declared.command.Look.{Look}
use Rattle.bl_cli.specs.declared.command.Look.TheVariants as look
use Rattle.bl_cli.specs.declared.status.Status.{Status}
use Rattle.bl_cli.specs.declared.status.Status.TheVariants as status
use Rattle.bl_cli.specs.LoadFaults.{fault_from, status_of, status_trouble}
use Rattle.bl_cli.proofs.FoundJobs.{view_err}
use Rattle.bl_cli.specs.Shown.{IsAnswer, Tells, job_body, list_body, made, page_body, page_status, told, told_job, told_page, view_status}

abbrev made_of : List ℕ → Result (List ℕ) Status
made_of text = Ok text

module _ {D : Type 0} (of : Ghosts D) (what : Look) (old new : View D) (ready : old.ready ≡ true) where
  -- want of memory is no trouble of which more is known
  handles_want : Handles of old new None → Handles of old new (Some trouble.NoMemory)
  handles_want handles = record {
    left = handles.left;
    right = handles.right;
    sound = handles.sound;
    later = handles.later;
    store = λ is. absurd (cc (is));
    bad = λ place is. absurd (cc (is));
  }

  -- there is nothing, or it can't be told
  pub tells_none : (why : Status) → IsAnswer (told what new.world) (Err why) → Looks of old new (status_trouble why) → Tells of what old new (Err why)
  tells_none why answer looks = record {
    answer = subst (λ (v : View D). IsAnswer (told what v.world) (Err why)) (looks.same ready) answer;
    same = looks.same ready;
    handles = looks.handles;
  }

  module _ (text : List ℕ) (told_is : told what new.world ≡ Ok text) (looks : Looks of old new None) where
    tells_text : (body : List ℕ) → body ≡ text → Tells of what old new (Ok body)
    tells_text body is = record {
      answer = subst (λ (v : View D). told what v.world ≡ Ok body) (looks.same ready) (told_is ∙ ap made_of (sym is));
      same = looks.same ready;
      handles = looks.handles;
    }

    tells_want : Tells of what old new (Err status.NoMemory)
    tells_want = record { answer = tt; same = looks.same ready; handles = handles_want looks.handles }

    by_body : {E : Type 0} (body : Result (List ℕ) E) → IfOk body (λ b. b ≡ text) → Tells of what old new (made body)
    by_body (Ok body) is = tells_text body is
    by_body (Err want) is = tells_want

    -- its body was made, or memory ran out
    pub tells_made : {E : Type 0} (body : Result (List ℕ) E) (result : Result (List ℕ) Status) → IfOk body (λ b. b ≡ text) → result ≡ made body → Tells of what old new result
    tells_made body result is made_is = subst (λ r. Tells of what old new r) (sym made_is) (by_body body is)

-- ---- refusals

same_trouble : (why : Trouble) → Some why ≡ status_trouble (status_of (fault_from why))
same_trouble trouble.StoreFault = refl
same_trouble (trouble.BadStore place) = refl
same_trouble trouble.NoMemory = refl

any_answer : (truth : Result (List ℕ) Status) (why : Trouble) → IsAnswer truth (Err (status_of (fault_from why)))
any_answer truth trouble.StoreFault = tt
any_answer truth (trouble.BadStore place) = tt
any_answer truth trouble.NoMemory = tt

view_same : (why : ViewRefusal) → view_trouble (view_err why) ≡ status_trouble (view_status why)
view_same view.Unknown = refl
view_same view.StoreFault = refl
view_same (view.BadStore place) = refl
view_same view.NoMemory = refl

view_answer : (id : ℕ) (world : World) (why : ViewRefusal) → (why ≡ view.Unknown → job_with_id id world.kept.jobs ≡ None) → IsAnswer (told (look.Load id) world) (Err (view_status why))
view_answer id world view.Unknown none = ap told_job (none refl)
view_answer id world view.StoreFault none = tt
view_answer id world (view.BadStore place) none = tt
view_answer id world view.NoMemory none = tt

abbrev pub page_err : PageRefusal → Result Page PageRefusal
page_err why = Err why

page_same : (why : PageRefusal) → page_trouble (page_err why) ≡ status_trouble (page_status why)
page_same page.NoRecords = refl
page_same page.StoreFault = refl
page_same (page.BadStore place) = refl
page_same page.NoMemory = refl

page_answer : (ask : PageAsk) (world : World) (why : PageRefusal) → (why ≡ page.NoRecords → page_of world ask ≡ []) → IsAnswer (told (look.Page ask) world) (Err (page_status why))
page_answer ask world page.NoRecords none = ap told_page (none refl)
page_answer ask world page.StoreFault none = tt
page_answer ask world (page.BadStore place) none = tt
page_answer ask world page.NoMemory none = tt

module _ {D : Type 0} (of : Ghosts D) (old new : View D) (ready : old.ready ≡ true) where
  pub no_loads : (why : Trouble) → Looks of old new (Some why) → (it : Status) → it ≡ status_of (fault_from why) → Tells of look.Loads old new (Err it)
  no_loads why looks it is =
      subst (λ s. Tells of look.Loads old new (Err s)) (sym is)
      (tells_none of look.Loads old new ready (status_of (fault_from why)) (any_answer (told look.Loads new.world) why) (subst (λ t. Looks of old new t) (same_trouble why) looks))

  pub no_load : (id : ℕ) (why : ViewRefusal) → (why ≡ view.Unknown → job_with_id id new.world.kept.jobs ≡ None) → Looks of old new (view_trouble (view_err why)) → (it : Status) → it ≡ view_status why
      → Tells of (look.Load id) old new (Err it)
  no_load id why none looks it is =
      subst (λ s. Tells of (look.Load id) old new (Err s)) (sym is)
      (tells_none of (look.Load id) old new ready (view_status why) (view_answer id new.world why none) (subst (λ t. Looks of old new t) (view_same why) looks))

  pub no_page : (ask : PageAsk) (why : PageRefusal) → (why ≡ page.NoRecords → page_of new.world ask ≡ []) → Looks of old new (page_trouble (page_err why)) → (it : Status) → it ≡ page_status why
      → Tells of (look.Page ask) old new (Err it)
  no_page ask why none looks it is =
      subst (λ s. Tells of (look.Page ask) old new (Err s)) (sym is)
      (tells_none of (look.Page ask) old new ready (page_status why) (page_answer ask new.world why none) (subst (λ t. Looks of old new t) (page_same why) looks))

-- ---- texts

pub loads_are_told : (world : World) (ids : List ℕ) → ids ≡ listed 100 true world.kept.jobs → told look.Loads world ≡ Ok (list_body ids)
loads_are_told world ids is = ap (λ l. made_of (list_body l)) (sym is)

pub load_is_told : (id : ℕ) (world : World) (job : Job) → job_with_id id world.kept.jobs ≡ Some job → told (look.Load id) world ≡ Ok (job_body job)
load_is_told id world job is = ap told_job is

some_told : (events : List Event) → 1 ≤ length events → told_page events ≡ Ok (page_body events)
some_told [] some = absurd (omega (arith, some))
some_told (event ∷ events) some = refl

pub page_is_told : (ask : PageAsk) (world : World) (events : List Event) → events ≡ page_of world ask → 1 ≤ length events → told (look.Page ask) world ≡ Ok (page_body events)
page_is_told ask world events is some = ap told_page (sym is) ∙ some_told events some
