-- Worked examples, by computing.
use Rattle.std.proofs.Common.{◌≡◌, ℕ, List, [], ◌∷◌, Option, Some, None, refl}
use Rattle.std.specs.Prelude.{codes}
use Rattle.vec_base.specs.Words.{is_reserved}
use Rattle.vec_words.specs.declared.config.Config.{Config}
use Rattle.vec_words.specs.declared.config.Mode.{Mode}
use Rattle.vec_words.specs.declared.config.Mode.TheVariants as modes
use Rattle.vec_words.specs.declared.config.Store.{Store}
use Rattle.vec_words.specs.declared.config.Store.TheVariants as stores
use Rattle.vec_words.specs.Configs.{config_of}
use Rattle.vec_words.specs.Uses.{Text, uses_of}

-- the configuration that the words behind the program's name spell
abbrev spelled : List Text → Option Config
spelled words = config_of (codes "vec_server" ∷ words)

abbrev configured : Mode → Store → ℕ → Text → Option Config
configured mode store workers listen = Some (record { mode = mode; store = store; workers = workers; listen = listen })

-- `shell --workers=4`
four_workers : spelled (codes "shell" ∷ codes "--workers=4" ∷ []) ≡ configured modes.Shell stores.InMemory 4 (codes "127.0.0.1:8080")
unfolding uses_of
four_workers = refl

-- `--listen ::1:80 serve --exchanges 7`
served_seven : spelled (codes "--listen" ∷ codes "::1:80" ∷ codes "serve" ∷ codes "--exchanges" ∷ codes "7" ∷ [])
    ≡ configured (modes.Serve 7) stores.InMemory 1 (codes "::1:80")
unfolding uses_of
served_seven = refl

-- `load --table Docs --journal=-a=b`: the name in lower case, the path as it stands behind the first `=`
loaded : spelled (codes "load" ∷ codes "--table" ∷ codes "Docs" ∷ codes "--journal=-a=b" ∷ [])
    ≡ configured (modes.Load (codes "docs")) (stores.Journal (codes "-a=b")) 1 (codes "127.0.0.1:8080")
unfolding uses_of is_reserved
loaded = refl

-- `sample --seed 0 --rows 100000`
most_rows : spelled (codes "sample" ∷ codes "--seed" ∷ codes "0" ∷ codes "--rows" ∷ codes "100000" ∷ [])
    ≡ configured (modes.Sample 0 100000) stores.InMemory 1 (codes "127.0.0.1:8080")
unfolding uses_of
most_rows = refl

-- no words, another mode, a table that is missing
no_mode : spelled [] ≡ None
unfolding uses_of
no_mode = refl

other_mode : spelled (codes "x" ∷ []) ≡ None
unfolding uses_of
other_mode = refl

no_table : spelled (codes "load" ∷ []) ≡ None
unfolding uses_of
no_table = refl

-- `--` behind the mode, a value that begins with a hyphen, an option that is given twice, and one that goes with another mode
two_hyphens : spelled (codes "shell" ∷ codes "--" ∷ []) ≡ None
unfolding uses_of
two_hyphens = refl

hyphen_behind : spelled (codes "shell" ∷ codes "--journal" ∷ codes "-" ∷ []) ≡ None
unfolding uses_of
hyphen_behind = refl

given_twice : spelled (codes "--workers=2" ∷ codes "shell" ∷ codes "--workers" ∷ codes "2" ∷ []) ≡ None
unfolding uses_of
given_twice = refl

seed_served : spelled (codes "serve" ∷ codes "--seed=7" ∷ []) ≡ None
unfolding uses_of
seed_served = refl

-- 65 workers, and none
too_many : spelled (codes "shell" ∷ codes "--workers=65" ∷ []) ≡ None
unfolding uses_of
too_many = refl

no_workers : spelled (codes "shell" ∷ codes "--workers=0" ∷ []) ≡ None
unfolding uses_of
no_workers = refl
