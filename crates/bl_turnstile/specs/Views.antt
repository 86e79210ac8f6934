-- What a seat at the table knows, in each state of its holder.
use Rattle.std.specs.Prelude.{ℕ, ◌++◌, true, false, List, [], ◌∷◌, Some, None}
use Rattle.bl_turnstile.specs.Entries.{Entries, longer}
use Rattle.bl_turnstile.specs.declared.standing.Standing.{Standing}

-- outside, with no ticket
abbrev pub idle : Entries → List ℕ → Standing
idle seen mine = record {
  waits = false;
  inside = false;
  has = false;
  ticket = 0;
  seen = seen;
  mine = mine;
  bound = None;
  note = [];
}

-- with a ticket that isn't served yet
abbrev pub waiting : ℕ → Entries → List ℕ → Standing
waiting n seen mine = record {
  waits = true;
  inside = false;
  has = false;
  ticket = n;
  seen = seen;
  mine = mine;
  bound = None;
  note = [];
}

-- its ticket is served, and the value is still in its slot
abbrev pub inside : ℕ → Entries → List ℕ → Standing
inside n seen mine = record {
  waits = true;
  inside = true;
  has = false;
  ticket = n;
  seen = seen;
  mine = mine;
  bound = None;
  note = [];
}

-- it has the value
abbrev pub having : ℕ → Entries → List ℕ → Standing
having n seen mine = record {
  waits = true;
  inside = true;
  has = true;
  ticket = n;
  seen = seen;
  mine = mine;
  bound = None;
  note = [];
}

-- it has the value, and has announced a list
abbrev pub bound_to : ℕ → Entries → List ℕ → Entries → Standing
bound_to n seen mine entries =
    record {
      waits = true;
      inside = true;
      has = true;
      ticket = n;
      seen = seen;
      mine = mine;
      bound = Some entries;
      note = [];
    }

-- the value is back in its slot, and its ticket is still served
abbrev pub back : ℕ → Entries → List ℕ → Entries → Standing
back n seen mine entries = record {
  waits = true;
  inside = true;
  has = false;
  ticket = n;
  seen = seen;
  mine = mine;
  bound = Some entries;
  note = [];
}

-- two views made one, with a note of what the second had seen
abbrev pub joined : Standing → Standing → Standing
joined v w = record {
  waits = false;
  inside = false;
  has = false;
  ticket = 0;
  seen = longer v.seen w.seen;
  mine = v.mine ++ w.mine;
  bound = None;
  note = w.seen;
}

abbrev pub newcomer : Standing → Standing
newcomer v = idle v.seen []

abbrev pub same_view : Standing → Standing
same_view v = v

-- of the one view in a list
abbrev pub seen_in : List Standing → Entries
seen_in [] = []
seen_in (v ∷ vs) = v.seen

abbrev pub mine_in : List Standing → List ℕ
mine_in [] = []
mine_in (v ∷ vs) = v.mine
