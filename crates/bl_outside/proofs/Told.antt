-- A told content, and the one image of a settled disk.
use Rattle.std.proofs.Common.{◌≡◌, ◌↔◌, ℕ, true, is_some, List, Some, None, refl, sym, ap, ◌∙◌, subst}
use Rattle.std.specs.declared.option.Option.{Option}
use Rattle.std.proofs.lemmas.Bool.{false≢true}
use Rattle.bl_outside.specs.Disks.{OnlySeen, StepsTold, OfContent}
use Rattle.bl_outside.specs.Sound.{IsSound, IsSettled}
use Rattle.bl_outside.specs.declared.disk.Disk.{Ghosts}

pub content_told : (seen : Option (List ℕ)) → is_some seen ≡ true → (content : List ℕ) × (seen ≡ Some content)
content_told None is = absurd (false≢true is)
content_told (Some content) is = (content, refl)

pub of_told : {T : Type 0} (seen : Option (List ℕ)) (content : List ℕ) (f : List ℕ → T) (x : T) → seen ≡ Some content → OfContent seen f x → x ≡ f content
of_told seen content f x is told = subst (λ o. OfContent o f x) is told

pub only_told : (seen : Option (List ℕ)) (content : List ℕ) (left : List ℕ → Type 0) → seen ≡ Some content → OnlySeen seen left → (c : List ℕ) → left c → c ≡ content
only_told seen content left is only = subst (λ o. OnlySeen o left) is only

pub told_written : (old new : Option (List ℕ)) (content : List ℕ) (F : List ℕ → List ℕ) → old ≡ Some content → StepsTold (λ o n. n ≡ F o) old new → new ≡ Some (F content)
told_written old new content F is steps = after new (subst (λ o. StepsTold (λ o n. n ≡ F o) o new) is steps)
  where
    after : (n : Option (List ℕ)) → StepsTold (λ o n. n ≡ F o) (Some content) n → n ≡ Some (F content)
    after None steps = absurd steps
    after (Some x) steps = ap (λ l. Some l) steps

module _ {D : Type 0} (of : Ghosts D) where
  -- a call that changes nothing leaves a settled disk settled
  pub settled_after : (old new : D) → IsSettled of old → of.seen new ≡ of.seen old → (of.honest new ↔ of.honest old) → (of.honest old → (c : List ℕ) → of.may_leave new c → of.may_leave old c) → IsSettled of new
  settled_after old new s seen honest crash = record {
    honest = honest.1 s.honest;
    only = fewer (of.seen old) (of.seen new) seen s.only;
  }
    where
      fewer : (before now : Option (List ℕ)) → now ≡ before → OnlySeen before (of.may_leave old) → OnlySeen now (of.may_leave new)
      fewer before None is only = tt
      fewer before (Some content) is only = λ c left. only_told before content (of.may_leave old) (sym is) only c (crash s.honest c left)

  -- a call that leaves told and honest alone keeps a disk sound, in both directions
  pub sound_after : (old new : D) → of.seen new ≡ of.seen old → (of.honest new ↔ of.honest old) → (IsSound of old ↔ IsSound of new)
  sound_after old new seen honest = (
    λ s. record { honest = honest.1 s.honest; told = ap is_some seen ∙ s.told },
    λ s. record { honest = honest.0 s.honest; told = ap is_some (sym seen) ∙ s.told },
  )
