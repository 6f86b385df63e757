mod ItemLaws
mod MemberLaws
