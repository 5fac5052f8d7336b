-- the head of a page
use Rattle.std.specs.Prelude.{ℕ, ◌==◌, if◌then◌else◌, List, ◌++◌, codes}
use Rattle.std.specs.List.{flat_map}
use Rattle.pictures.specs.Escapes.{escape_of}

-- how a byte of a title stands in a page: a line feed as a blank
unfoldable pub title_byte : ℕ → List ℕ
title_byte byte = if byte == 10 then codes " " else escape_of byte

-- how a title stands in a page: on one line
abbrev pub titled : List ℕ → List ℕ
titled title = flat_map title_byte title

-- the head of a page with a title, up to its style; a screen shows it as wide as it is itself
abbrev pub page_head : List ℕ → List ℕ
page_head title = codes "<!DOCTYPE html><html lang=en><meta charset=utf-8>"
    ++ codes "<meta name=viewport content=\"width=device-width,initial-scale=1\"><title>"
    ++ titled title ++ codes "</title>"

-- the title as the heading of a page
abbrev pub page_heading : List ℕ → List ℕ
page_heading title = codes "<h1>" ++ titled title ++ codes "</h1>\n"
