mod ShownPages
