-- Words that are read are those that ask.
use Rattle.std.specs.Prelude.{◌≡◌, ◌≤◌, ◌⊎◌, ℕ, Bool, true, false, cond, codes, length, map, option_map, List, [], ◌∷◌, Some, None, refl}
use Rattle.std.specs.declared.option.Option.{Option}
use Rattle.std.proofs.Common.{inl, inr, sym, ap, subst, ◌∙◌, arith}
use Rattle.bl_stream.specs.declared.page_ask.PageAsk.{PageAsk}
use Rattle.bl_feed.specs.LoadBodies.{id_in}
use Rattle.bl_cli.specs.declared.command.Command.TheVariants as command
use Rattle.bl_cli.specs.declared.command.Look.{Look}
use Rattle.bl_cli.specs.declared.command.Look.TheVariants as look
use Rattle.bl_feed.specs.Parameters.{number_in}
use Rattle.bl_cli.specs.Commands.{AskForNothing, AsksForPage, AsksForScript, AsksToShow}
use Rattle.bl_cli.specs.Options.{is_word}
use Rattle.bl_cli.specs.Reading.{is_help, look_in, page_in, page_shown, script_in, status_in, turns_in}
use Rattle.bl_cli.specs.Words.{AskForNoLoad}
use Rattle.bl_cli.proofs.Readings.{same_word}
use Rattle.bl_cli.proofs.StreamOptions.{page_is_asked, page_is_read}

-- ---- help

pub help_asked : (words : List (List ℕ)) → is_help words ≡ true → words ≡ codes "help" ∷ []
help_asked [] is = absurd (cc (is))
help_asked (word ∷ []) is = ap (λ w. w ∷ []) (same_word word (codes "help") is)
help_asked (word ∷ (more ∷ rest)) is = absurd (cc (is))

help_is_read : (words : List (List ℕ)) → words ≡ codes "help" ∷ [] → is_help words ≡ true
help_is_read words is = ap is_help is

-- ---- what is to be shown

abbrev some_number : ℕ → Option ℕ
some_number n = Some n

abbrev some_look : Look → Option Look
some_look what = Some what

-- more than one word behind `status`
pub no_status : {A : Type 0} (f : A → List ℕ) (items : List A) → 2 ≤ length items → None ≡ status_in (map f items)
no_status f [] many = absurd (omega (arith, many))
no_status f (item ∷ []) many = absurd (omega (arith, many))
no_status f (item ∷ (other ∷ items)) many = refl

status_asked : (rest : List (List ℕ)) (what : Look) → status_in rest ≡ Some what → AsksToShow (codes "status" ∷ rest) what
status_asked [] look.Loads is = refl
status_asked [] (look.Load id) is = absurd (cc (is))
status_asked [] (look.Page ask) is = absurd (cc (is))
status_asked (text ∷ []) look.Loads is = absurd (cc (is))
status_asked (text ∷ []) (look.Load id) is = let same : id_in text ≡ id = cc (is) in (text, refl, sym same)
status_asked (text ∷ []) (look.Page ask) is = absurd (cc (is))
status_asked (text ∷ (more ∷ rest)) what is = absurd (cc (is))

page_look : (made : Option PageAsk) (rest : List (List ℕ)) (what : Look) → page_in rest ≡ made → page_shown rest ≡ Some what → AsksToShow (codes "stream" ∷ rest) what
page_look None rest what read is = absurd (cc (read, is))
page_look (Some ask) rest look.Loads read is = absurd (cc (read, is))
page_look (Some ask) rest (look.Load id) read is = absurd (cc (read, is))
page_look (Some ask) rest (look.Page other) read is = let same : ask ≡ other = cc (read, is) in page_is_asked rest other (read ∙ ap Some same)

pub look_asked : (words : List (List ℕ)) (what : Look) → look_in words ≡ Some what → AsksToShow words what
look_asked [] what is = absurd (cc (is))
look_asked (word ∷ rest) what is = by (is_word word (codes "status")) (is_word word (codes "stream")) refl refl is where
  moved : (first : List ℕ) → word ≡ first → AsksToShow (first ∷ rest) what → AsksToShow (word ∷ rest) what
  moved first same asks = subst (λ w. AsksToShow (w ∷ rest) what) (sym same) asks

  by : (a b : Bool) → is_word word (codes "status") ≡ a → is_word word (codes "stream") ≡ b → cond a (status_in rest) (cond b (page_shown rest) None) ≡ Some what → AsksToShow (word ∷ rest) what
  by true b same other is = moved (codes "status") (same_word word (codes "status") same) (status_asked rest what is)
  by false true same other is = moved (codes "stream") (same_word word (codes "stream") other) (page_look (page_in rest) rest what refl is)
  by false false same other is = absurd (cc (is))

look_is_read : (words : List (List ℕ)) (what : Look) → AsksToShow words what → look_in words ≡ Some what
look_is_read words look.Loads asks = ap look_in asks
look_is_read words (look.Load id) asks = ap look_in asks.1 ∙ ap (λ n. some_look (look.Load n)) (sym asks.2)
look_is_read [] (look.Page ask) asks = absurd (cc (asks.words_are))
look_is_read (word ∷ rest) (look.Page ask) asks =
    let first : word ≡ codes "stream" = cc (asks.words_are) in
    ap (λ w. look_in (w ∷ rest)) first
    ∙ ap (λ made. option_map (λ ask. look.Page ask) made) (page_is_read rest ask (subst (λ w. AsksForPage (w ∷ rest) ask) first asks))

-- ---- a script

-- one word behind `script`, or more than two
pub no_turns : {A : Type 0} (f : A → List ℕ) (items : List A) → (length items ≡ 1) ⊎ (3 ≤ length items) → None ≡ turns_in (map f items)
no_turns f [] (inl one) = absurd (omega (arith, one))
no_turns f [] (inr many) = absurd (omega (arith, many))
no_turns f (item ∷ []) some = refl
no_turns f (item ∷ (other ∷ [])) (inl one) = absurd (omega (arith, one))
no_turns f (item ∷ (other ∷ [])) (inr many) = absurd (omega (arith, many))
no_turns f (item ∷ (other ∷ (more ∷ items))) some = refl

turns_asked : (rest : List (List ℕ)) (turns : ℕ) → turns_in rest ≡ Some turns → AsksForScript (codes "script" ∷ rest) turns
turns_asked [] turns is = let same : 1 ≡ turns = cc (is) in inl (refl, sym same)
turns_asked (name ∷ []) turns is = absurd (cc (is))
turns_asked (name ∷ (text ∷ [])) turns is = by (is_word name (codes "--turns")) refl is where
  by : (b : Bool) → is_word name (codes "--turns") ≡ b → cond b (number_in 0 1000 text) None ≡ Some turns → AsksForScript (codes "script" ∷ (name ∷ (text ∷ []))) turns
  by true same is = inr (text, ap (λ w. codes "script" ∷ (w ∷ (text ∷ []))) (same_word name (codes "--turns") same), is)
  by false same is = absurd (cc (is))
turns_asked (name ∷ (text ∷ (more ∷ rest))) turns is = absurd (cc (is))

pub script_asked : (words : List (List ℕ)) (turns : ℕ) → script_in words ≡ Some turns → AsksForScript words turns
script_asked [] turns is = absurd (cc (is))
script_asked (word ∷ rest) turns is = by (is_word word (codes "script")) refl is where
  by : (b : Bool) → is_word word (codes "script") ≡ b → cond b (turns_in rest) None ≡ Some turns → AsksForScript (word ∷ rest) turns
  by true same is = subst (λ w. AsksForScript (w ∷ rest) turns) (sym (same_word word (codes "script") same)) (turns_asked rest turns is)
  by false same is = absurd (cc (is))

script_is_read : (words : List (List ℕ)) (turns : ℕ) → AsksForScript words turns → script_in words ≡ Some turns
script_is_read words turns (inl one) = ap script_in one.0 ∙ ap (λ n. some_number n) (sym one.1)
script_is_read words turns (inr many) = ap script_in many.1 ∙ many.2

-- ---- nothing is asked for

pub asks_nothing : (words : List (List ℕ)) → is_help words ≡ false → look_in words ≡ None → script_in words ≡ None → AskForNoLoad words → AskForNothing words
asks_nothing words help shown script none (command.Load load) asks = none load asks
asks_nothing words help shown script none (command.Script turns) asks = cc (script, script_is_read words turns asks)
asks_nothing words help shown script none (command.Show what) asks = cc (shown, look_is_read words what asks)
asks_nothing words help shown script none command.Help asks = cc (help, help_is_read words asks)
