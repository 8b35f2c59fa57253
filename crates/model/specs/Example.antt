-- The worked example: truck 7 on eight pages with fill 4, and the edges of what is accepted.
use Rattle.std.specs.Prelude.{◌≡◌, ℕ, List, [], ◌∷◌, ◌++◌, replicate}
use Rattle.order.specs.declared.keys.Key.{Key}
use Rattle.order.specs.Loads.{is_load_key, loads}
use Rattle.order.specs.Places.{is_place, places, key_of_name}
use Rattle.model.specs.Answers.{Answer, code, figure}
use Rattle.model.specs.Entries.{KeyOrder}
use Rattle.model.specs.States.{State}
use Rattle.model.specs.Starts.{format, attach, unmade}
use Rattle.model.specs.Calls.{Call, begin, turn, withdraw, post, merge, raise, sweep, step}

abbrev pub load_order : KeyOrder
load_order = record { keyed = is_load_key; compared = loads }

abbrev pub place_order : KeyOrder
place_order = record { keyed = is_place; compared = places }

-- an unmade index over zeros
abbrev pub zeros : ℕ → State
zeros n = unmade (replicate n 0)

-- the pair of an answer
abbrev pub pair_of : Answer → ℕ × ℕ
pair_of a = (code a, figure a)

-- the pairs that calls get, one after another
abbrev pub answers_to : KeyOrder → List Call → State → List (ℕ × ℕ)
answers_to o [] s = []
answers_to o (c ∷ cs) s = pair_of (step o c s).answer ∷ answers_to o cs (step o c s).after

abbrev pub on_formatted : KeyOrder → ℕ → ℕ → List Call → List (ℕ × ℕ)
on_formatted o words fill cs = answers_to o cs (format fill (zeros words)).after

-- truck 7 at a second
abbrev pub at : ℕ → Key
at second = record { hi = 7; lo = second }

abbrev pub look : ℕ → Key → Call
look console k = begin console 1 k 0

abbrev pub enter : ℕ → Key → ℕ → Call
enter console k value = begin console 2 k value

abbrev pub strike : ℕ → Key → Call
strike console k = begin console 3 k 0

-- seconds 10 to 40 in tens hold 100 to 400: console 0 begins and takes the one turn that is needed
abbrev pub four_loads : List Call
four_loads =
    enter 0 (at 10) 100 ∷ turn 0 ∷ enter 0 (at 20) 200 ∷ turn 0
    ∷ enter 0 (at 30) 300 ∷ turn 0 ∷ enter 0 (at 40) 400 ∷ turn 0 ∷ []

abbrev pub four_answers : List (ℕ × ℕ)
four_answers = (20, 0) ∷ (25, 0) ∷ (20, 0) ∷ (25, 0) ∷ (20, 0) ∷ (25, 0) ∷ (20, 0) ∷ (25, 0) ∷ []

-- a fifth load splits the page under a job that stands on it
abbrev pub split_under_look : List Call
split_under_look = look 1 (at 40) ∷ enter 0 (at 50) 500 ∷ turn 0 ∷ turn 1 ∷ turn 1 ∷ turn 0 ∷ turn 0 ∷ []

abbrev pub split_answers : List (ℕ × ℕ)
split_answers = (20, 0) ∷ (20, 0) ∷ (22, 2) ∷ (21, 2) ∷ (23, 400) ∷ (21, 2) ∷ (25, 0) ∷ []

abbrev pub new_root : List Call
new_root = raise ∷ post 3 ∷ post 3 ∷ []

abbrev pub root_answers : List (ℕ × ℕ)
root_answers = (31, 3) ∷ (29, 2) ∷ (11, 0) ∷ []

abbrev pub two_strikes : List Call
two_strikes = strike 0 (at 10) ∷ turn 0 ∷ turn 0 ∷ strike 0 (at 20) ∷ turn 0 ∷ turn 0 ∷ []

abbrev pub strike_answers : List (ℕ × ℕ)
strike_answers = (20, 0) ∷ (21, 1) ∷ (27, 100) ∷ (20, 0) ∷ (21, 1) ∷ (27, 200) ∷ []

-- a merge under a job, which keeps the gone page from being swept until it has moved on
abbrev pub merge_under_look : List Call
merge_under_look = look 1 (at 50) ∷ turn 1 ∷ merge 3 ∷ sweep ∷ turn 1 ∷ sweep ∷ turn 1 ∷ []

abbrev pub merge_answers : List (ℕ × ℕ)
merge_answers = (20, 0) ∷ (21, 2) ∷ (30, 2) ∷ (11, 0) ∷ (21, 1) ∷ (32, 1) ∷ (23, 500) ∷ []

-- what consoles, kinds and pages are refused, and a withdrawn job
abbrev pub refused_calls : List Call
refused_calls =
    look 2 (at 10)
    ∷ look 2 (at 20)
    ∷ withdraw 2
    ∷ withdraw 2
    ∷ turn 2
    ∷ look 32 (at 10)
    ∷ turn 32
    ∷ withdraw 32
    ∷ begin 0 0 (at 10) 0
    ∷ begin 0 4 (at 10) 0
    ∷ post 1
    ∷ merge 9
    ∷ raise
    ∷ sweep
    ∷ []

abbrev pub refusals : List (ℕ × ℕ)
refusals =
    (20, 0)
    ∷ (5, 0)
    ∷ (28, 1)
    ∷ (6, 0)
    ∷ (6, 0)
    ∷ (4, 0)
    ∷ (4, 0)
    ∷ (4, 0)
    ∷ (7, 0)
    ∷ (7, 0)
    ∷ (10, 0)
    ∷ (10, 0)
    ∷ (11, 0)
    ∷ (11, 0)
    ∷ []

-- five loads in two leaves under a root
abbrev pub five_loads : List Call
five_loads = four_loads ++ (enter 0 (at 50) 500 ∷ turn 0 ∷ turn 0 ∷ turn 0 ∷ raise ∷ post 3 ∷ [])

abbrev pub five_answers : List (ℕ × ℕ)
five_answers = four_answers ++ ((20, 0) ∷ (22, 2) ∷ (21, 2) ∷ (25, 0) ∷ (31, 3) ∷ (29, 2) ∷ [])

-- a strike, which takes two turns there
abbrev pub struck : ℕ → List Call
struck second = strike 0 (at second) ∷ turn 0 ∷ turn 0 ∷ []

abbrev pub struck_on : ℕ → ℕ → List (ℕ × ℕ)
struck_on page value = (20, 0) ∷ (21, page) ∷ (27, value) ∷ []

-- with fill 4 two leaves are merged at two entries, and not at three
abbrev pub merge_edge : List Call
merge_edge =
    merge 3 ∷ (struck 40 ++ (struck 50 ++ (merge 3 ∷ (struck 20 ++ (merge 3 ∷ look 0 (at 30) ∷ turn 0 ∷ turn 0 ∷ [])))))

abbrev pub merge_edge_answers : List (ℕ × ℕ)
merge_edge_answers =
    (11, 0)
    ∷ (struck_on 2 400
    ++ (struck_on 2 500
    ++ ((11, 0) ∷ (struck_on 1 200 ++ ((30, 2) ∷ (20, 0) ∷ (21, 1) ∷ (23, 300) ∷ [])))))

-- two more loads split the second leaf; both leaves behind the first are merged into it and swept at once
abbrev pub sweep_of_two : List Call
sweep_of_two =
    enter 0 (at 60) 600
    ∷ turn 0
    ∷ turn 0
    ∷ enter 0 (at 70) 700
    ∷ turn 0
    ∷ turn 0
    ∷ turn 0
    ∷ turn 0
    ∷ post 3
    ∷ (struck 10
    ++ (struck 20
    ++ (merge 3
    ∷ merge 3
    ∷ (struck 30 ++ (struck 40 ++ (merge 3 ∷ sweep ∷ look 0 (at 70) ∷ turn 0 ∷ turn 0 ∷ []))))))

abbrev pub sweep_of_two_answers : List (ℕ × ℕ)
sweep_of_two_answers =
    (20, 0)
    ∷ (21, 2)
    ∷ (25, 0)
    ∷ (20, 0)
    ∷ (21, 2)
    ∷ (22, 4)
    ∷ (21, 4)
    ∷ (25, 0)
    ∷ (29, 4)
    ∷ (struck_on 1 100
    ++ (struck_on 1 200
    ++ ((30, 2)
    ∷ (11, 0)
    ∷ (struck_on 1 300
    ++ (struck_on 1 400 ++ ((30, 4) ∷ (32, 2) ∷ (20, 0) ∷ (21, 1) ∷ (23, 700) ∷ []))))))

pub record WorkedExample : Type 0 where
  -- stores of 127 and 128 words
  pub too_small : pair_of (format 4 (zeros 127)).answer ≡ (1, 0)
  pub smallest : pair_of (format 4 (zeros 128)).answer ≡ (20, 2)
  -- a fifth enter on 128 words finds no free page
  pub no_room :
      on_formatted load_order 128 4 (four_loads ++ (enter 0 (at 50) 500 ∷ turn 0 ∷ []))
      ≡ four_answers ++ ((20, 0) ∷ (9, 0) ∷ [])
  -- fills
  pub fill3 : pair_of (format 3 (zeros 512)).answer ≡ (2, 0)
  pub fill4 : pair_of (format 4 (zeros 512)).answer ≡ (20, 8)
  pub fill18 : pair_of (format 18 (zeros 512)).answer ≡ (20, 8)
  pub fill19 : pair_of (format 19 (zeros 512)).answer ≡ (2, 0)
  -- trucks
  pub truck0 : on_formatted load_order 512 4 (look 0 (record { hi = 0; lo = 10 }) ∷ []) ≡ (7, 0) ∷ []
  pub truck10000 : on_formatted load_order 512 4 (look 0 (record { hi = 10000; lo = 10 }) ∷ []) ≡ (7, 0) ∷ []
  -- truck 7, call by call
  pub truck_seven :
      on_formatted load_order 512 4 (four_loads ++ (split_under_look ++ (new_root ++ (two_strikes ++ merge_under_look))))
      ≡ four_answers ++ (split_answers ++ (root_answers ++ (strike_answers ++ merge_answers)))
  -- on three pages a job takes three turns, as many as there are pages
  pub three_turns :
      on_formatted load_order 192 4 (four_loads ++ (enter 0 (at 50) 500 ∷ turn 0 ∷ turn 0 ∷ turn 0 ∷ []))
      ≡ four_answers ++ ((20, 0) ∷ (22, 2) ∷ (21, 2) ∷ (25, 0) ∷ [])
  -- pit7 entered after PIT7
  pub one_name :
      on_formatted place_order 512 4
      (enter 0 (key_of_name (80 ∷ 73 ∷ 84 ∷ 55 ∷ [])) 1 ∷ turn 0
      ∷ enter 0 (key_of_name (112 ∷ 105 ∷ 116 ∷ 55 ∷ [])) 2 ∷ turn 0 ∷ [])
      ≡ (20, 0) ∷ (25, 0) ∷ (20, 0) ∷ (26, 1) ∷ []
  -- refusals, and a withdrawn job
  pub refused : on_formatted load_order 512 4 refused_calls ≡ refusals
  -- when two pages are merged, and how many a sweep frees
  pub merges_at_half : on_formatted load_order 512 4 (five_loads ++ merge_edge) ≡ five_answers ++ merge_edge_answers
  pub sweeps_two : on_formatted load_order 512 4 (five_loads ++ sweep_of_two) ≡ five_answers ++ sweep_of_two_answers
  -- attach to a formatted store, to zeros and to too few words
  pub attached : pair_of (attach (unmade (format 4 (zeros 512)).after.words)).answer ≡ (20, 8)
  pub no_index : pair_of (attach (zeros 512)).answer ≡ (3, 0)
  pub no_store : pair_of (attach (zeros 127)).answer ≡ (1, 0)
